pub mod Chosen
pub mod Part
pub mod Laws
pub mod Up
pub mod Zero
pub mod Unit
