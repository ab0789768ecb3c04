pub mod Inner
pub mod Laws
pub mod Words
pub mod WordDone
