pub mod Terms
pub mod InnerPoints
