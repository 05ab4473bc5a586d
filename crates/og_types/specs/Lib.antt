pub mod Value
pub mod Ty
pub mod Values
pub mod Names
pub mod laws
