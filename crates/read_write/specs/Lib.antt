pub mod Laws
pub mod ReadPromise
pub mod WritePromise
