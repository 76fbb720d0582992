pub mod PartLaws
pub mod LowestLaws
