pub mod Words
pub mod Interfaces
pub mod Privates
