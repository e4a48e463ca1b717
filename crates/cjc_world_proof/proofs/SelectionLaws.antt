pub mod Rules
pub mod Solid
pub mod Exceptions
