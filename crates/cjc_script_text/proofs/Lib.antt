pub mod Decided
pub mod Lines
pub mod Loops
pub mod Short
pub mod Steps
