pub mod Repair
pub mod InnerRows
