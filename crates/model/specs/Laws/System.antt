pub mod StoredLaws
pub mod IndexLaws
pub mod RolesLaws
pub mod StepTestLaws
