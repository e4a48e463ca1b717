pub mod Selected
pub mod Owners
mod Tokens
pub mod Called
pub mod Emittable
