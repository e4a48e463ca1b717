pub mod Grouping
pub mod Private
pub mod Told
pub mod Tabled
pub mod Whole
pub mod Ready
