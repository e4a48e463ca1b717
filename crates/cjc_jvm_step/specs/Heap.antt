pub mod Names
pub mod Kinds
pub mod Objects
pub mod Looks
pub mod Parts
