pub mod Bytes
pub mod Slots
pub mod Places
pub mod Walks
pub mod Filled
