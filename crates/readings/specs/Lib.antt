pub mod Holder
pub mod Reported
pub mod Forms
