pub mod OneText
pub mod Endings
