pub mod Thresholds
pub mod Marks
pub mod Tables
pub mod Until
