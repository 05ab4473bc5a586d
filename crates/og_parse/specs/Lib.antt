pub mod NestsGames
pub mod Parsed
pub mod Whole
