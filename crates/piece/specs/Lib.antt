pub mod Promise
pub mod Determined
pub mod Leaning
pub mod Sizes
pub mod Cubic
pub mod Found
