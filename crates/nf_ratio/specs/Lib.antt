pub mod Ratios
pub mod Ties
pub mod Loops
pub mod Answer
