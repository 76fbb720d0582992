pub mod Face
pub mod Statements
