pub mod Reached
pub mod Members
pub mod Looks
pub mod Begun
pub mod Named
pub mod Scripted
