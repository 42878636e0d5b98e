pub mod Holders
pub mod Coins
pub mod Examples
