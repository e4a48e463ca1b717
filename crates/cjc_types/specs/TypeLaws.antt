pub mod Places
pub mod Closed
pub mod Whole
