pub mod Lengths
pub mod Parameters
pub mod Puts
