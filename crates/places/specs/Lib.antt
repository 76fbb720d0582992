pub mod Places
pub mod Room
