pub mod Sizes
pub mod Forms
pub mod Formed
pub mod Weights
pub mod Mapped
pub mod Decisions
pub mod Found
pub mod Listed
