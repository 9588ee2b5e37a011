pub mod Calls
pub mod Causes
pub mod Held
pub mod Sets
pub mod Memory
pub mod Progress
