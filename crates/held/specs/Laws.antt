-- Sets in the pool. Assumes nothing.
pub mod AddingLaws
pub mod HeldLaws
pub mod HeldToLaws
pub mod LabelRowsLaws
pub mod ListedLaws
pub mod OccupiedLaws
pub mod PoolLaws
pub mod RowsLaws
pub mod SlotsLaws
pub mod ZeroLaws
