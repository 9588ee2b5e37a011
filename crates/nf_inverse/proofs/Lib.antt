pub mod Lists
pub mod Stored
pub mod Steps
pub mod Sums
pub mod Updates
