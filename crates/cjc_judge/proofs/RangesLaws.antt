pub mod OneFirst
pub mod Hundred
