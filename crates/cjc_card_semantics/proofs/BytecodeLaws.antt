pub mod Natural
pub mod Together
pub mod Longer
pub mod Follows
pub mod Turns
pub mod Joined
pub mod Told
