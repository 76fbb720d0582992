pub mod DigitLaws
pub mod NumberLaws
pub mod ReadLaws
pub mod WriteLaws
