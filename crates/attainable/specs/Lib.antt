pub mod Attainable
pub mod Forms
