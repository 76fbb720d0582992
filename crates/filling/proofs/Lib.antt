pub mod Gathering
pub mod Serving
