pub mod EachAllLaws
pub mod GoodLaws
pub mod GoodPlacesLaws
pub mod GoodTestLaws
pub mod HoldsLaws
pub mod LevelsLaws
pub mod NamesLaws
pub mod StoredModelLaws
