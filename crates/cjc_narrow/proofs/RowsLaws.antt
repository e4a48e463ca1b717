pub mod Keys
pub mod Fields
pub mod Exports
pub mod Handlers
