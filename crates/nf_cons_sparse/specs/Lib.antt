pub mod Sparse
pub mod PairsInside
pub mod SparseDue
pub mod LineState
pub mod TypedState
