pub mod Held
pub mod Ends
pub mod Trials
pub mod Summaries
