pub mod Putting
pub mod Everywhere
pub mod Kept
pub mod Upward
pub mod Near
