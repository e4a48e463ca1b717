pub mod Narrow
pub mod Components
pub mod Hierarchy
pub mod Intervals
