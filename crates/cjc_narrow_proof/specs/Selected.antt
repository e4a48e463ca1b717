pub mod Keeps
pub mod Names
pub mod Operands
