pub mod Early
pub mod Claim
pub mod Excepted
