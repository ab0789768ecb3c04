pub mod NoHighLaws
pub mod PartsLaws
pub mod ReadingLaws
