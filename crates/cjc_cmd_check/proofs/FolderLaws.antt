pub mod Along
pub mod Files
pub mod Gathers
pub mod Ordered
