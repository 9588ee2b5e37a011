pub mod Lines
pub mod Setting
pub mod Verdicts
pub mod Turns
pub mod Runs
pub mod Endings
pub mod Stops
pub mod Steps
