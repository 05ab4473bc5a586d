pub mod formers
pub mod laws
