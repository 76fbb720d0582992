pub mod WalkLaws
pub mod TableLaws
pub mod ZeroLaws
pub mod RowLaws
pub mod PassLaws
pub mod PaddingLaws
pub mod HandCases
pub mod HandLaws
