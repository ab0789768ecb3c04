pub mod ClassListLaws
pub mod TableWritesLaws
pub mod RoundsLaws
pub mod RankedLaws
pub mod LowerRanksLaws
