pub mod Selected
pub mod Owners
pub mod Tokens
pub mod Called
pub mod Emittable
