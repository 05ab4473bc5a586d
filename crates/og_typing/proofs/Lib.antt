pub mod TypeLevels
pub mod ValueLevels
pub mod Walked
pub mod Tables
pub mod Sized
pub mod Used
pub mod Steps
