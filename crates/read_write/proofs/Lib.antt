pub mod WriteAnswers
pub mod ReadAnswers
