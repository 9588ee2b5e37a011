pub mod Opened
pub mod Turns
pub mod Gives
pub mod Texts
pub mod Beginnings
pub mod Faults
