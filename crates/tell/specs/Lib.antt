pub mod Inner
pub mod Laws
pub mod Claim
pub mod Promises
pub mod BenchModels
pub mod TickModels
pub mod Bench
