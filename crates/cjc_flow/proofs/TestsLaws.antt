pub mod First
pub mod Lowest
