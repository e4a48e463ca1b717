pub mod Places
pub mod Noting
pub mod Spotted
