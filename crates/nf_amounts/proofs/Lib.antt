pub mod Reading
pub mod Options
pub mod Networks
pub mod Constrained
pub mod Dense
pub mod Sparse
