pub mod Storing
pub mod Making
