pub mod Lay
pub mod InnerLay
