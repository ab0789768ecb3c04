pub mod ModelLists
pub mod LeakSearch
pub mod Judging
pub mod VerdictTest
