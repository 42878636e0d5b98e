pub mod Answer
pub mod Forms
