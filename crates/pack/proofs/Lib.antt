pub mod Laws
pub mod Plans
pub mod Parts
pub mod Runs
pub mod Writes
pub mod Cases
pub mod Apart
