pub mod Codes
pub mod Command
pub mod Held
pub mod Texts
pub mod Answer
pub mod Ran
pub mod Fetching
pub mod Halves
