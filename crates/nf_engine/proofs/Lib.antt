mod SumFacts
mod StepFacts
mod RunFacts
mod Once
mod Determined
