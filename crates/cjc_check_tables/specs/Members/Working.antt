-- What the code keeps for itself; a reader of the contracts may pass over it.
pub mod Above
pub mod Fields
pub mod Needs
pub mod Known
pub mod Tests
