pub mod Hand
pub mod Passes
