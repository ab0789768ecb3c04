pub mod Letters
pub mod WordHead
