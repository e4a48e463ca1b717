pub mod ByToken
pub mod Once
pub mod Declared
pub mod Emittable
pub mod ClassOrder
