mod Counting
mod ByName
mod Climbing
mod Lines
