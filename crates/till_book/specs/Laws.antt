pub mod PrintsBookLaws
