pub mod JudgeLaws
pub mod WeighLaws
