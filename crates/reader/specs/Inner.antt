pub mod ReadSoFar
pub mod FirstLine
