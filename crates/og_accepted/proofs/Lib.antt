pub mod Flags
pub mod Ranks
pub mod Tables
pub mod Weights
pub mod Actions
