pub mod Chains
pub mod Nests
pub mod Rooms
