pub mod Calendar
pub mod Range
