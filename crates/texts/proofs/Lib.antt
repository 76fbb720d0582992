pub mod BreakLaws
pub mod Utf8Laws
