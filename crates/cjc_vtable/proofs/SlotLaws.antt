pub mod Meant
pub mod Asked
