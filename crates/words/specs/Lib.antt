pub mod Words
pub mod Runs
pub mod Walk
pub mod Lines
pub mod Joining
pub mod Determined
pub mod Examples
