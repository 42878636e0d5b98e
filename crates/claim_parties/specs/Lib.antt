pub mod Claim
pub mod Renaming
