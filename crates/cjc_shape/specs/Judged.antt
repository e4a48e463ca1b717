pub mod Tested
pub mod Pooled
