pub mod Fetching
pub mod Pairs
