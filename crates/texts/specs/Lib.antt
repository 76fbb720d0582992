pub mod Utf8
pub mod Breaks
pub mod Inner
