pub mod Cells
pub mod Converted
