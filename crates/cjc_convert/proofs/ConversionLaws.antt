pub mod Shapes
pub mod Stops
pub mod Handlers
pub mod Judging
pub mod Makes
pub mod Flags
pub mod Short
