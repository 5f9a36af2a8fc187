pub mod Decimal
pub mod Digits
pub mod Examples
pub mod Natural
pub mod Reading
pub mod Spelling
pub mod Text
