pub mod Answering
pub mod Pumping
pub mod Telling
pub mod Sampling
