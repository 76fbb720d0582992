pub mod ClearLaws
pub mod PlanLaws
pub mod OpenLaws
pub mod CloseLaws
