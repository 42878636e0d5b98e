pub mod Thrown
