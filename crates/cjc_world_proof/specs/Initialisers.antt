pub mod Statements
pub mod Initialisers
pub mod Packages
pub mod Values
