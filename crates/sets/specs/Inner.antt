pub mod SetValues
pub mod Sets
