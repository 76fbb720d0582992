pub mod Handing
pub mod Columns
pub mod InnerJudge
pub mod InnerWrite
pub mod InnerBytes
