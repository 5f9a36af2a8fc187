pub mod Causes
pub mod Found
pub mod Known
pub mod Limits
pub mod Numbered
pub mod Order
pub mod Refusals
