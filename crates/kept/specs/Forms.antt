pub mod Prospect
pub mod Evaluation
