pub mod Named
mod Resting
pub mod Rests
mod Entered
pub mod Inverse
pub mod Spread
mod Steps
pub mod Pivoted
pub mod Arisen
pub mod Flipped
pub mod Priced
pub mod Started
pub mod Keeping
mod Loaded
pub mod Wanted
mod LoadStart
pub mod LoadEnd
pub mod RestNumbers
pub mod Restored
pub mod FirstLoad
mod Listed
