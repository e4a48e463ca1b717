pub mod Solid
pub mod Targets
