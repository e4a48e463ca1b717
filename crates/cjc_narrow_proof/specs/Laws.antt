pub mod Unbroken
pub mod Left
pub mod Calls
