mod Midway
mod SideRests
mod Blocks
mod WideSlots
mod OwnColumns
mod WideLoops
mod WideInverse
mod WideValues
