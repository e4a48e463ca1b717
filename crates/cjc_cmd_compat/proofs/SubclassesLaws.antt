pub mod Slots
pub mod Lines
pub mod Worlds
pub mod Interfaces
pub mod Members
pub mod Trees
pub mod Listings
pub mod Tokens
