pub mod CellFacts
pub mod SeenFacts
