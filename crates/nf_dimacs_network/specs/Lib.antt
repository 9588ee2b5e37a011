pub mod Rows
pub mod Figures
pub mod Problem
