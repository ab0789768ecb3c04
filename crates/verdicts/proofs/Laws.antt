pub mod ModelListsLaws
pub mod VerdictTestLaws
pub mod VerdictsLaws
