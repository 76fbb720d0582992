pub mod Encode
pub mod InnerRegister
