pub mod Positions
pub mod Starts
pub mod Parting
pub mod Copying
pub mod Strewing
pub mod Serving
