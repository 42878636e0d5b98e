pub mod Entry
pub mod Coin
pub mod Ledger
