pub mod Reads
pub mod Breaks
pub mod Working
