pub mod Walks
pub mod Roles
pub mod Fusible
pub mod Complete
pub mod Open
pub mod Near
