pub mod Others
pub mod Round
