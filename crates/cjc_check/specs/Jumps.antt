pub mod Offsets
pub mod Standing
pub mod Listing
