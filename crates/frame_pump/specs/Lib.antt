pub mod Sessions
pub mod Causes
pub mod Turns
