pub mod Calculations
pub mod Deeds
pub mod Places
