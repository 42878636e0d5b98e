pub mod SetsBytes
