pub mod LineAnswers
pub mod PartAnswers
pub mod Ranges
pub mod NumberAt
pub mod Row
pub mod Columns
pub mod Scan
pub mod Clearing
