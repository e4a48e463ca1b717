-- What the code keeps for itself; a reader of the contracts may pass over it.
pub mod Names
pub mod Graph
pub mod Reach
pub mod Rows
pub mod Lookup
pub mod Upwards
