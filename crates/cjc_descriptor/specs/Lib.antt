pub mod Fits
pub mod Made
pub mod Working
