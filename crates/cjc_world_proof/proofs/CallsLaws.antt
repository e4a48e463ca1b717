pub mod Own
pub mod Selects
pub mod Types
pub mod Specials
pub mod Fields
pub mod Scripts
