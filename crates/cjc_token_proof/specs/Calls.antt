pub mod Dispatching
pub mod Selecting
pub mod Reaching
