pub mod Promise
pub mod Forms
