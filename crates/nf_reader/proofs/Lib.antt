pub mod SettingFacts
pub mod Sound
pub mod Complete
pub mod FaultSteps
pub mod Answered
