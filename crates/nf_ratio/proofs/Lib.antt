mod Offers
mod First
mod Signs
mod Causes
mod Sizes
mod Tied
mod Winner
mod Steps
mod Looking
mod Answered
pub mod Slots
