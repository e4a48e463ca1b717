pub mod Conversion
pub mod Working
