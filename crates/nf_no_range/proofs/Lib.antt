pub mod Reached
pub mod Ranges
