pub mod Named
pub mod Sends
