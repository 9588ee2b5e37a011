mod Opened
mod RunFacts
mod TurnFacts
mod Answered
mod Ended
mod Listed
