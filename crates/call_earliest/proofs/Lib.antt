pub mod NextBlocks
pub mod Rows
pub mod Lengths
pub mod Answers
