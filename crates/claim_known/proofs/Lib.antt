pub mod Known
pub mod Sends
pub mod SendRows
pub mod HeightRows
