pub mod Operations
pub mod Objects
pub mod Statics
pub mod Named
pub mod First
pub mod Puts
pub mod Memory
pub mod Runs
