pub mod Counting
pub mod ByName
pub mod Climbing
pub mod Lines
