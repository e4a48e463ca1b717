pub mod Places
pub mod Closed
