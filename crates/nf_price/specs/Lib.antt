pub mod Queue
pub mod Turns
pub mod Rules
pub mod Choice
pub mod Level
pub mod Wanted
pub mod Cost
