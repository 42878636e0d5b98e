pub mod Emitted
pub mod Row
