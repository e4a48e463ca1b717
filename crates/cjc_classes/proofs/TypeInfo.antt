pub mod Walks
pub mod Order
pub mod Parts
pub mod Starts
