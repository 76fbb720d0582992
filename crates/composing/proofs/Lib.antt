pub mod ValueLaws
pub mod LineLaws
pub mod ComposeLaws
