pub mod Meant
pub mod TypeTable
pub mod Working
