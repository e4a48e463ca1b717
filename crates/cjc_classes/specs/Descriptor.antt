pub mod Fits
pub mod Keys
pub mod Made
pub mod Working
