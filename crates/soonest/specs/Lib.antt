pub mod Soonest
pub mod Forms
