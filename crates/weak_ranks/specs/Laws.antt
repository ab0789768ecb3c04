pub mod ChangedLaws
pub mod DividingLaws
pub mod LabelsLaws
pub mod LeadLaws
pub mod RoundLaws
