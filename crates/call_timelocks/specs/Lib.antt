pub mod Bitcoin
pub mod Fields
pub mod Limits
pub mod Timelocks
pub mod Claim
