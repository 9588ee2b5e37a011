pub mod TextFacts
pub mod HandFacts
pub mod NameFacts
pub mod RowNameFacts
