pub mod Inner
pub mod Answer
pub mod AnswerLaws
pub mod Told
pub mod ToldLaws
pub mod ToldUniqueLaws
