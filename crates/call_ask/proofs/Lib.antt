pub mod Own
pub mod Opens
pub mod Asks
pub mod Commits
pub mod Appended
pub mod Claims
pub mod Examples
pub mod Theorems
