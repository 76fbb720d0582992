pub mod Parts
pub mod Words
pub mod Bytes
pub mod Turns
pub mod Constant
pub mod Feeding
pub mod Checking
