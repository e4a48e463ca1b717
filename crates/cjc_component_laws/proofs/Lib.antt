pub mod Tests
pub mod Sizes
pub mod Starts
