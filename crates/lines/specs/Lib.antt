pub mod Inner
pub mod Laws
pub mod PageLines
pub mod Page
pub mod Roll
pub mod Examples
