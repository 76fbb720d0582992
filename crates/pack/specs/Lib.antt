pub mod Pack
pub mod Inner
pub mod Cases
pub mod Told
