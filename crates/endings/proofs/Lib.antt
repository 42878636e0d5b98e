pub mod Locks
pub mod Counting
pub mod Naming
