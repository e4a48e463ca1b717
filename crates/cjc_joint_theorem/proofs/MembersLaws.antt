pub mod Worlds
pub mod Methods
pub mod First
pub mod Named
pub mod Joined
pub mod Solid
