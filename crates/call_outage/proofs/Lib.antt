pub mod RowLengths
pub mod RowViews
pub mod OutageAnswers
