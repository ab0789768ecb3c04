pub mod Laws
pub mod Inner
pub mod MoveList
