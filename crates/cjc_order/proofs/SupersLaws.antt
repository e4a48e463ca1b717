pub mod Sets
pub mod Trees
pub mod Walks
