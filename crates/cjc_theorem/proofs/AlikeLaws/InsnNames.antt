pub mod Types
pub mod Fields
pub mod Named
