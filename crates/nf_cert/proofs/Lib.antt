pub mod FirstFacts
pub mod RowFacts
pub mod PartFacts
pub mod WholeFacts
pub mod ReadFacts
pub mod TextFacts
pub mod GrowFacts
pub mod BackFacts
mod Examples
