pub mod Weights
pub mod Causes
pub mod Exchanged
