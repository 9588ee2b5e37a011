pub mod NodeFacts
pub mod TextFacts
