pub mod Roots
pub mod InnerWords
