pub mod Keeping
pub mod OneTree
pub mod Spelt
