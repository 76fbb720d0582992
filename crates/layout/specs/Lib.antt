pub mod Layout
pub mod Rule
pub mod Spread
pub mod Cases
