pub mod Receivers
pub mod Begun
pub mod Callees
pub mod Descs
pub mod Calls
pub mod Scripts
pub mod Fields
pub mod Whole
