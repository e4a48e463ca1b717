pub mod Types
pub mod Known
pub mod Acts
pub mod Flow
pub mod Tables
pub mod Search
pub mod Working
