pub mod Session
pub mod SessionTable
pub mod Values
pub mod Rows
pub mod Statuses
pub mod Reading
pub mod Saved
