pub mod Relation
pub mod Rows
pub mod Jumps
pub mod Objects
pub mod Cells
pub mod Calls
