pub mod Prelude
pub mod Little
pub mod Ranges
