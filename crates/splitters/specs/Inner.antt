pub mod MoveSplits
pub mod Partition
pub mod Splitters
pub mod Splitting
