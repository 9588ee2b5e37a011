pub mod Labels
pub mod Labelled
pub mod Texts
