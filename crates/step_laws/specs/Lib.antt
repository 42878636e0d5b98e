pub mod Wellformed
pub mod OlderOrder
pub mod ListBound
