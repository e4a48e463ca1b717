pub mod Emittable
pub mod Working
