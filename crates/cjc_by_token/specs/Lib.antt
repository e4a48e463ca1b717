pub mod Cells
pub mod Objects
