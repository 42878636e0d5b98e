pub mod Opens
pub mod Dated
pub mod Report
pub mod Forms
