pub mod Tests
pub mod Sizes
pub mod Starts
pub mod Apart
