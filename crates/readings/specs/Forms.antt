pub mod Holder
pub mod Report
pub mod Context
