pub mod ClassList
pub mod TableWrites
pub mod LowerRanks
