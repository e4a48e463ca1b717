pub mod Dispatching
pub mod Selecting
