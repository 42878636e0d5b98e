pub mod Lengths
pub mod Four
pub mod Writing
pub mod Examples
