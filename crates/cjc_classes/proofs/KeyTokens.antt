pub mod Kept
pub mod Lines
pub mod Walked
pub mod Here
