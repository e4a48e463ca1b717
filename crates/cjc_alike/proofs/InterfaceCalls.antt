pub mod Words
mod Interfaces
mod Privates
