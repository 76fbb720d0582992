pub mod Told
pub mod Noting
pub mod Walking
pub mod Payloads
pub mod Gathering
pub mod Tabling
pub mod Stepping
