pub mod Kept
pub mod Refusing
pub mod Tested
pub mod Standing
