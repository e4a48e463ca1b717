pub mod Ascents
pub mod Leaving
pub mod Nibbles
