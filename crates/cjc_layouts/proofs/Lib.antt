pub mod Kept
mod Refusing
mod Tested
pub mod Standing
