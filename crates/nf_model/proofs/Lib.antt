pub mod Products
pub mod Duality
pub mod Lists
pub mod Farkas
pub mod Ray
pub mod Greatest
