mod Conjunction
pub mod OpenViews
pub mod Notes
pub mod Stepping
pub mod Forgetting
pub mod ReportAnswers
pub mod OpenedRules
