pub mod Every
pub mod Lines
pub mod Handlers
