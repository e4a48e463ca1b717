pub mod Whole
pub mod Named
pub mod Converted
