pub mod Laws
pub mod HighCases
