pub mod Packet
pub mod Edition
pub mod Range
pub mod Cases
pub mod Told
