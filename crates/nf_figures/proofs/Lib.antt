pub mod Listed
pub mod Arising
pub mod Whole
