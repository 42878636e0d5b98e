pub mod Conflict
pub mod HasConflicts
pub mod Height
pub mod Expiring
pub mod Line
pub mod Members
