pub mod Places
pub mod Coded
pub mod Scatter
pub mod Cases
pub mod Spans
