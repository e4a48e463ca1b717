-- What the code keeps for itself.
pub mod Names
