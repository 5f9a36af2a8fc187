pub mod Floats
pub mod Replies
pub mod Examples
