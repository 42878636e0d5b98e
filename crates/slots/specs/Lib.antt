pub mod Destination
pub mod Slot
pub mod Conflict
pub mod Ancestry
pub mod Invalidated
pub mod Deadline
pub mod Signatures
pub mod Forms
