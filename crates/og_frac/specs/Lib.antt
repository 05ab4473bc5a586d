pub mod Fraction
pub mod Frac
pub mod Fitting
pub mod Text
pub mod Terms
pub mod laws
