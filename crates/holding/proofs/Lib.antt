pub mod RecordLaws
pub mod LayoutLaws
