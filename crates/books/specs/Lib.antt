pub mod Books
pub mod Checks
pub mod Inner
pub mod Laws
