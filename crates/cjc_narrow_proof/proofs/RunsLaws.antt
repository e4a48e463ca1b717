pub mod Pairs
pub mod Whole
pub mod Calls
pub mod Named
pub mod Converted
