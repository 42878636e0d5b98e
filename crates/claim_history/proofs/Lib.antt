pub mod Holders
pub mod Playing
pub mod Writing
pub mod Numbers
pub mod Entries
pub mod Promised
pub mod Theorems
