pub mod Names
pub mod Words
pub mod Values
pub mod ReadValues
pub mod Settings
pub mod Programs
pub mod Kinds
pub mod Grammar
