pub mod Reads
pub mod Package
pub mod Ready
