pub mod Lists
pub mod Below
pub mod LookupFacts
