pub mod WroteLaws
pub mod WritableLaws
pub mod WritingLaws
pub mod NameLaws
