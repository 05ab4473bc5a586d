pub mod Places
pub mod Unplaced
pub mod Deep
pub mod Counts
