pub mod ShowAnswers
