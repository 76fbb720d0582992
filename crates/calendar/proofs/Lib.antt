pub mod RangeLaws
pub mod OrderLaws
