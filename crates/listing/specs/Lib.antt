pub mod Listing
pub mod Statements
