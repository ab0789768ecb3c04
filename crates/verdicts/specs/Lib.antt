pub mod Laws
pub mod Inner
pub mod Verdicts
pub mod JudgeFilled
