pub mod Sizes
pub mod Search
pub mod Above
pub mod Needs
pub mod Fields
