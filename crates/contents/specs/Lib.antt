pub mod Slots
pub mod Contents
pub mod Laws
