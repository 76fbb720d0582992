pub mod Turned
pub mod Either
pub mod FirstRow
pub mod Misread
pub mod Replaced
pub mod Unrestored
