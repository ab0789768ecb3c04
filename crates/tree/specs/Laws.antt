-- What the splitting tree says of two classes, and how the rows of the classes are written from it. Assumes nothing.
pub mod ApartExistsLaws
pub mod EntriesLaws
pub mod RowsLaws
pub mod TableLaws
pub mod TreeLaws
