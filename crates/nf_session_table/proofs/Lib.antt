pub mod GrowFacts
