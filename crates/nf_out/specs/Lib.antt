pub mod Tables
pub mod Words
pub mod Arcs
pub mod Rows
pub mod Output
