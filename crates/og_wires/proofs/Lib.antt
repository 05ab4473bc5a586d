pub mod Accepted
pub mod Blocks
pub mod Scales
pub mod Walked
