pub mod Case
pub mod Known
pub mod Heights
pub mod Sends
pub mod Statuses
