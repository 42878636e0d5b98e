pub mod Earliest
pub mod Plan
pub mod Ending
pub mod Forms
