pub mod Compositions
pub mod Fronts
pub mod OneAnswer
