pub mod Matrix
pub mod Causes
pub mod Changed
pub mod Swapped
pub mod Taken
pub mod Rank
