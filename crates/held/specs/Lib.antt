pub mod Held
pub mod Moves
pub mod HeldTests
pub mod Inner
pub mod Laws
