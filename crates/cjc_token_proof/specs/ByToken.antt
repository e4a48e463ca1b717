pub mod Cells
pub mod Objects
pub mod Above
pub mod Classes
pub mod Supers
pub mod Names
