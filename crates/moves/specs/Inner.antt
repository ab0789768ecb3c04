pub mod Holding
pub mod Labelling
pub mod Listing
