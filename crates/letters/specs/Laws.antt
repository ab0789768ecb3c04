pub mod WordsLaws
pub mod FirstSilentLaws
pub mod LettersLaws
pub mod LastLetterLaws
pub mod WordHeadLaws
pub mod WordDoneLaws
pub mod LeastLeakLaws
pub mod ShowableLaws
