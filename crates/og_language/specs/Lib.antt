pub mod Begins
pub mod Grammar
pub mod Language
pub mod Spelled
pub mod Symbols
pub mod Trees
pub mod laws
