pub mod Ask
pub mod Commit
pub mod Claim
