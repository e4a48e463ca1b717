pub mod Reads
pub mod Ready
