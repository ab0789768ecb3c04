pub mod Store
pub mod Text
pub mod System
