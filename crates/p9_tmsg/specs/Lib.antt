pub mod Messages
pub mod MessageLaws
pub mod Frames
pub mod Counting
