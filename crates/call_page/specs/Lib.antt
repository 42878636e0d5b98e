pub mod Line
pub mod Page
pub mod Claim
pub mod Forms
