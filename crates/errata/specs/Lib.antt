pub mod Errata
pub mod Restoring
pub mod InnerSums
pub mod InnerNull
pub mod InnerErrata
pub mod InnerRestoring
pub mod InnerValues
