pub mod Taking
pub mod Onward
pub mod Determined
pub mod Examples
