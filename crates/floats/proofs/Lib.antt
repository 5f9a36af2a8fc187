pub mod Exactly
pub mod Cast
