pub mod Chunks
pub mod Entries
pub mod Opcodes
pub mod Numbers
pub mod Wide
pub mod Switches
pub mod Decoded
pub mod Members
