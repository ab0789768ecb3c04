pub mod PageLists
pub mod Refusals
pub mod StateLinesTest
pub mod OtherLines
