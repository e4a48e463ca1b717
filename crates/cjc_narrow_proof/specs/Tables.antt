pub mod Kinds
pub mod Analysis
pub mod Supported
pub mod Names
pub mod Arrays
pub mod Calls
pub mod Package
pub mod Pairs
