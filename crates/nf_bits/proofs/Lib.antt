pub mod BitFacts
