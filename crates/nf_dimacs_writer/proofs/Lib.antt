pub mod FirstFacts
pub mod LineFacts
