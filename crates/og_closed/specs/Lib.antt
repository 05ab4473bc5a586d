pub mod Lines
pub mod Natures
pub mod Families
pub mod Closed
