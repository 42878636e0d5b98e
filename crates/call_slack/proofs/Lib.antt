pub mod RowLengths
pub mod SlackAnswers
pub mod NoneDue
pub mod Longer
pub mod Found
