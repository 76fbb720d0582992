pub mod MendLaws
pub mod OfferCases
pub mod OfferFacts
pub mod OfferLaws
pub mod Apart
pub mod OfferReads
