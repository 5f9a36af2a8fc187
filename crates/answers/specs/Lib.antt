pub mod Filling
pub mod Places
pub mod Texts
pub mod Passing
pub mod Apart
pub mod Examples
