pub mod LineFacts
pub mod SayFacts
pub mod ReadFacts
pub mod TableFacts
