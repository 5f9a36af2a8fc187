pub mod Promise
pub mod Signed
pub mod Rounded
pub mod Whole
