pub mod NameFacts
pub mod Things
pub mod ValueFacts
