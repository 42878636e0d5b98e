pub mod Shrink
pub mod Claim
pub mod Forms
