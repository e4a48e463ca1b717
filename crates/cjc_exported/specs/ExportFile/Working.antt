-- What the code keeps for itself; a reader of the contracts may pass over it.
pub mod Plain
pub mod Sources
pub mod Exported
