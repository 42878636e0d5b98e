pub mod Bundle
pub mod Desk
pub mod Claim
pub mod Layout
pub mod Forms
