pub mod CellFacts
pub mod LoopFacts
pub mod StateFacts
