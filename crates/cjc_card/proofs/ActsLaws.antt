pub mod Fits
pub mod Joined
