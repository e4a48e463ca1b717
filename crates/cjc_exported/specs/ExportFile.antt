pub mod Offsets
pub mod Working
