pub mod StopFacts
pub mod EndFacts
pub mod ImportFacts
pub mod ExportFacts
