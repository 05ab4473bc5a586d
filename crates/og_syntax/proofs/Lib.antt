pub mod WithoutPlaces
pub mod Walks
pub mod Matched
