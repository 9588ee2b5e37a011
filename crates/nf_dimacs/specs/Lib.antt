pub mod Kinds
pub mod Lines
pub mod Numbers
pub mod Says
pub mod Faults
pub mod Tables
pub mod Text
pub mod Progress
