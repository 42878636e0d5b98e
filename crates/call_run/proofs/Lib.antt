pub mod Groups
pub mod Calls
pub mod Runs
pub mod Rows
pub mod Bounds
