pub mod Package
pub mod Summary
pub mod Runs
pub mod Working
