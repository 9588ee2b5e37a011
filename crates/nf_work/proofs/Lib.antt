pub mod Handed
pub mod Inverses
pub mod Swapped
pub mod Solved
pub mod Replaced
pub mod Ranked
