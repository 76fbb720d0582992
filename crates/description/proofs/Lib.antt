pub mod ValueLaws
pub mod SplitLaws
pub mod AnswerLaws
