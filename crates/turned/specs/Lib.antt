pub mod Wrong
pub mod Misreadings
