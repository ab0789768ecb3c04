pub mod RunAnswers
pub mod WordAnswers
pub mod JudgeWordAnswers
