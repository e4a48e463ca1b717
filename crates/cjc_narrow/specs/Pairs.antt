pub mod Roles
pub mod Fusible
pub mod Open
