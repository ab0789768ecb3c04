pub mod GoodStoredLaws
pub mod RankBoundLaws
pub mod SilentStepLaws
