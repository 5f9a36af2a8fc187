pub mod Lists
pub mod Next
pub mod Rows
pub mod Determined
pub mod Examples
