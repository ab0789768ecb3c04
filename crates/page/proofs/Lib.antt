pub mod PageAnswers
pub mod ReadRefusals
pub mod PrintAnswers
pub mod PrintsTextAnswers
