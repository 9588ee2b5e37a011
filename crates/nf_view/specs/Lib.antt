pub mod Keys
pub mod View
pub mod Parts
pub mod Walk
pub mod Order
pub mod Sizes
pub mod Laws
