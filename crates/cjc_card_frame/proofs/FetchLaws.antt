pub mod Fetching
pub mod Pairs
pub mod Ranges
