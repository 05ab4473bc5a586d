pub mod Rules
pub mod Accepted
pub mod Meaning
pub mod Report
pub mod Equilibrium
