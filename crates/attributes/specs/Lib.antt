pub mod Attributes
pub mod Rules
pub mod Lines
pub mod Describe
pub mod Compose
pub mod Told
pub mod Statements
pub mod Wrong
