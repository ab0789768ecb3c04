pub mod OnStoreLaws
pub mod Store
pub mod System
pub mod Text
