mod Staying
mod Along
pub mod Theorems
pub mod Examples
