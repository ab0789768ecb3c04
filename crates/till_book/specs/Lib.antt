pub mod Laws
pub mod PrintsBook
