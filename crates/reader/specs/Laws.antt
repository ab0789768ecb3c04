pub mod ReadLaws
pub mod ReadLevelsLaws
pub mod ReadStartsLaws
pub mod ReadStepsLaws
pub mod TextReadLaws
pub mod NameLaws
pub mod FaultLaws
