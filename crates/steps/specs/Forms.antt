pub mod View
pub mod Parent
pub mod Blocks
pub mod Conduct
pub mod Sending
pub mod Sharing
pub mod Mining
