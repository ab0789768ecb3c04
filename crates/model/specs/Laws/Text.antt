pub mod JoinedFieldsLaws
pub mod LineTextLaws
pub mod ActionLineLaws
pub mod TextLaws
pub mod TextLengthLaws
pub mod LinesReadLaws
pub mod EndLaws
