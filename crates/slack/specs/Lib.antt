pub mod Beaten
pub mod Kept
pub mod Counted
pub mod Settled
pub mod Slack
