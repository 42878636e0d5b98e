pub mod Field
pub mod Parents
