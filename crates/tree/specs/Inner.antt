pub mod Rows
pub mod Tree
