pub mod Kept
pub mod NoParent
pub mod PoolTests
pub mod Reached
pub mod RightFields
pub mod Spelled
pub mod Unmoved
