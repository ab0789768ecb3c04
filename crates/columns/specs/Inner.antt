pub mod Columns
pub mod Entries
pub mod Filling
pub mod LineCount
