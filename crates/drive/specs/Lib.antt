pub mod Drive
pub mod Size
pub mod Refused
pub mod Determined
pub mod TheSameCurve
pub mod Figures
pub mod Found
