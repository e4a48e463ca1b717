pub mod Classes
pub mod Supers
