pub mod Program
pub mod Certificate
pub mod Failure
pub mod Problem
pub mod Lists
pub mod Farkas
pub mod Ray
