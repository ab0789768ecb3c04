pub mod ListingLaws
pub mod RisingLaws
pub mod ListedToLaws
pub mod LabellingLaws
pub mod LinkedLaws
pub mod LabelsLaws
pub mod HoldingLaws
pub mod HeldStepsLaws
