pub mod Gathers
pub mod Order
