pub mod Shapes
pub mod Decoded
