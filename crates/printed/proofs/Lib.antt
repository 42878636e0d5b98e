mod Lines
pub mod Theorems
