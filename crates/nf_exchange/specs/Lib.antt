pub mod Lines
pub mod Ending
pub mod Import
pub mod Export
pub mod Steps
pub mod Promises
