pub mod Alike
pub mod Halves
pub mod Met
pub mod Opcodes
