pub mod ReadTextLaws
pub mod ClaimLaws
pub mod TellPromiseLaws
pub mod WordTestLaws
pub mod BenchTestsLaws
pub mod BenchLaws
pub mod TicksLaws
