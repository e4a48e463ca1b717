mod ByToken
mod Once
pub mod Declared
pub mod Emittable
mod ClassOrder
