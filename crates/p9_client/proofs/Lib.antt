mod Readable
mod Sizes
mod Replies
pub mod Names
mod NewFids
pub mod Telling
mod Answering
mod Only
pub mod Sampling
mod Changing
mod Told
mod Listed
