pub mod Places
pub mod Stacks
