pub mod Items
pub mod Setting
pub mod Finding
pub mod Counting
pub mod Joining
pub mod Inside
pub mod Starts
