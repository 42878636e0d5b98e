pub mod ReportRows
pub mod OpenSteps
pub mod OpenListed
pub mod OpenReach
pub mod OpenTurns
mod OpenIdle
pub mod OpenBytes
