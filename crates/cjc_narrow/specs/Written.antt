pub mod Operands
pub mod Rows
pub mod Labels
pub mod Working
