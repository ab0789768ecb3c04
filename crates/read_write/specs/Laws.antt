pub mod ReadPromiseLaws
pub mod ReadAnswerLaws
pub mod ReadOutcomeLaws
pub mod ReadingPlaceLaws
pub mod WritePromiseLaws
pub mod WriteOutcomeLaws
