mod Kept
mod Lines
mod Walked
mod Here
mod Next
