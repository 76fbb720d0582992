pub mod Mend
pub mod Offer
pub mod Put
pub mod InnerOffer
pub mod Told
