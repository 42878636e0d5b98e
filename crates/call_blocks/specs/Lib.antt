pub mod BlockList
pub mod Forms
