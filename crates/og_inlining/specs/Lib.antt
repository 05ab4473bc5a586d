pub mod Steps
pub mod Seen
pub mod Trees
pub mod Sound
pub mod Forms
pub mod Bodies
