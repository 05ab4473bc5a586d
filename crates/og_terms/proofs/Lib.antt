pub mod Chains
pub mod Rooms
