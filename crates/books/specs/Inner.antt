pub mod Groups
pub mod Openings
pub mod Filling
pub mod Sides
pub mod Still
