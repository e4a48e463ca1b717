pub mod Named
pub mod Climbs
pub mod Files
