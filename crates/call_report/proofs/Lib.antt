pub mod Reports
pub mod DatedRuns
