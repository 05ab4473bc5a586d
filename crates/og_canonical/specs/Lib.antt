pub mod Tokens
pub mod Values
pub mod Types
pub mod Expressions
pub mod Games
pub mod Programs
pub mod Strategies
