pub mod ColumnFacts
pub mod PartFacts
pub mod Counted
