-- Bits of words as members of sets. Assumes nothing.
pub mod BitsLaws
pub mod EndsLaws
pub mod MasksLaws
pub mod OperationsLaws
pub mod SearchLaws
pub mod SetValuesLaws
pub mod SetsLaws
pub mod WalkLaws
pub mod WithinLaws
pub mod WordsLaws
