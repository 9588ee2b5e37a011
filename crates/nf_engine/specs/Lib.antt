pub mod Point
pub mod Steps
pub mod Run
pub mod Laws
