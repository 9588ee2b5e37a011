pub mod ZeroFits
pub mod Trailing
pub mod PricedFacts
pub mod Places
pub mod PrintedFacts
