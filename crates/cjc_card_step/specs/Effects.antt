pub mod Deeds
pub mod Looks
