pub mod Members
pub mod Image
pub mod Cells
pub mod Slots
pub mod Objects
mod Above
pub mod Classes
pub mod Subtypes
pub mod Names
