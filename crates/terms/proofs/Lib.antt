pub mod Stores
pub mod Summing
pub mod Powering
