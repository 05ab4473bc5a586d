pub mod Lexemes
pub mod Rereading
