pub mod Keys
pub mod Loops
pub mod Targets
