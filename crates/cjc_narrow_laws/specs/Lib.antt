pub mod Unbroken
pub mod Left
