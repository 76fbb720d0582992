pub mod Laws
pub mod Spares
pub mod Cases
pub mod Apart
