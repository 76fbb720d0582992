pub mod WrittenLaws
pub mod FormLaws
