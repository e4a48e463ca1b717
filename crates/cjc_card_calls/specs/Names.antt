pub mod Described
pub mod Sending
