pub mod SurveyLaws
pub mod StatusLaws
pub mod Apart
