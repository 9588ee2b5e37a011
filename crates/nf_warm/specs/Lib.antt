pub mod Inside
pub mod Head
pub mod Faults
pub mod Standing
pub mod Recorded
pub mod Lines
