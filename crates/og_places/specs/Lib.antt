pub mod Expressions
pub mod Places
