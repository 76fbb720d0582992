pub mod Rests
pub mod Places
pub mod Turns
pub mod Turning
