pub mod Operations
pub mod Objects
pub mod Statics
pub mod Named
