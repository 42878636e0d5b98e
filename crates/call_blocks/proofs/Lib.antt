pub mod Lengths
pub mod Walk
pub mod Named
pub mod Rise
pub mod Keeping
pub mod Tested
