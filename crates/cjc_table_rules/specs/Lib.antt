pub mod Kinds
pub mod Analysis
pub mod Supported
pub mod Names
