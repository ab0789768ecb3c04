pub mod LeakSearchLaws
pub mod JudgeFilledLaws
