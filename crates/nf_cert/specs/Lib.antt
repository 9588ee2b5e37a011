pub mod Verdicts
pub mod First
pub mod Inside
pub mod Items
pub mod Reading
pub mod Rows
pub mod Steps
pub mod Written
