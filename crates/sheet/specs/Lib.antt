pub mod Refusal
pub mod Field
pub mod Check
pub mod Saswap
pub mod Setup
pub mod LockHeight
pub mod Checked
pub mod Forms
