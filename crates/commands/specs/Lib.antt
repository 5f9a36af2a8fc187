pub mod Commands
pub mod Choosing
pub mod Reading
pub mod Examples
