mod Listed
mod Moved
mod Gap
pub mod Directions
pub mod Arises
pub mod Valid
