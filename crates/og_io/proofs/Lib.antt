pub mod Latest
pub mod LoadsHeld
