pub mod Calls
pub mod Statements
pub mod Cases
