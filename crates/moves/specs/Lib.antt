pub mod Labels
pub mod Inner
pub mod Laws
