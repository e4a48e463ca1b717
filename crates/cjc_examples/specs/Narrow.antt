pub mod Both
pub mod Calculating
pub mod Overriding
pub mod Sharing
pub mod Keeping
pub mod Laid
