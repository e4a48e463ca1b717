pub mod Walks
pub mod Indices
