pub mod PrintsCheckLaws
