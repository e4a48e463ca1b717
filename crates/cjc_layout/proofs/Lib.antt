pub mod Opcodes
pub mod Places
pub mod Passes
pub mod Orders
pub mod Whole
pub mod Lowered
pub mod Sorted
