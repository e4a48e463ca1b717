pub mod Reached
pub mod Specials
pub mod Members
pub mod Known
pub mod Fields
pub mod Statics
pub mod Objects
pub mod Joined
