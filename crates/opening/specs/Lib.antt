pub mod Open
pub mod Inner
