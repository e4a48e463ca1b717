pub mod Leaving
pub mod Nibbles
