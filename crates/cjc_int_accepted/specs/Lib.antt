pub mod Acts
pub mod Arguments
pub mod Frames
pub mod Methods
pub mod Runs
pub mod Stretches
pub mod Types
