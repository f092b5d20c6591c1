pub mod Replies
pub mod ReplyLaws
pub mod Frames
pub mod Dirents
