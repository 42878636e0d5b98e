pub mod View
pub mod Owed
pub mod FirstShares
pub mod Guards
pub mod Journal
pub mod Seen
