pub mod WordFacts
pub mod StopFacts
pub mod PlainFacts
pub mod CompleteFacts
pub mod RefusedFacts
pub mod RangeFacts
pub mod RunFacts
pub mod RanFacts
