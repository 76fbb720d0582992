pub mod Survey
pub mod Status
pub mod Told
