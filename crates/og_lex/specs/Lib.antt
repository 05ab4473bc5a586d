pub mod Characters
pub mod LeftToRight
pub mod Spelling
pub mod Tables
pub mod Written
