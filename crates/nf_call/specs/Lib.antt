pub mod Lines
pub mod Sample
pub mod Call
pub mod Steps
