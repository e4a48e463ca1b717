pub mod Standing
pub mod Ordered
pub mod Fields
pub mod Lines
pub mod Selected
