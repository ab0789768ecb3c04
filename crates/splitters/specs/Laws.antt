-- Laws of partitions, of splits and of rounds. Assumes nothing.
pub mod ApartLaws
pub mod CutLaws
pub mod DividingLaws
pub mod FreshLaws
pub mod HeldRanksLaws
pub mod HomeLaws
pub mod IncomingLaws
pub mod LeadingLaws
pub mod PartitionLaws
pub mod RefiningLaws
pub mod RoundLaws
pub mod SplitLaws
pub mod SplittingLaws
pub mod StableLaws
pub mod StatesLaws
pub mod UnderLaws
