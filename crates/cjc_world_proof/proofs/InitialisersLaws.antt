pub mod Statements
pub mod Places
pub mod Initialisers
pub mod Packages
pub mod Values
pub mod Cells
