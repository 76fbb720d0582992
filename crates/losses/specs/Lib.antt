pub mod Losses
pub mod InnerRuns
