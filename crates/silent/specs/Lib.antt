pub mod Labelled
pub mod LabelledTests
pub mod Inner
pub mod Laws
pub mod Steps
