pub mod ListingLaws
pub mod RefusedLaws
pub mod Apart
