pub mod Inner
pub mod Laws
pub mod Rows
pub mod LowNames
pub mod StateRows
pub mod Examples
