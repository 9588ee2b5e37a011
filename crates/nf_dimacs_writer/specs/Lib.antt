pub mod Refusal
pub mod Written
