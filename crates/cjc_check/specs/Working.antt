pub mod Parts
pub mod Indexed
pub mod Nibbles
pub mod MethodStarts
pub mod Tokens
pub mod Leaving
pub mod Linked
