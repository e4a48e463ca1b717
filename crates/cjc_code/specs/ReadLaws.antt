pub mod Instructions
pub mod Members
