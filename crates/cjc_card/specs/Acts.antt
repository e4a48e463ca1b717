pub mod States
pub mod Acts
