pub mod Walks
pub mod Named
pub mod Kept
pub mod Order
pub mod Parts
pub mod Starts
