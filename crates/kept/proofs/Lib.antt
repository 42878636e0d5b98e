pub mod Rounds
pub mod WithinSets
pub mod Evaluated
pub mod LeastPassing
pub mod Answers
