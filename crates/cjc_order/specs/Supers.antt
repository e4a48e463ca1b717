pub mod Supers
pub mod Working
