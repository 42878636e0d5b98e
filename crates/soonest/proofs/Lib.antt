pub mod Bounds
pub mod Recursion
pub mod Tables
pub mod Locks
pub mod SoonestParents
pub mod Deadlines
