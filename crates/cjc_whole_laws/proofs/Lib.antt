mod ByToken
mod Once
mod Declared
pub mod Emittable
mod ClassOrder
