pub mod Worlds
pub mod First
pub mod Methods
pub mod Named
pub mod Joined
