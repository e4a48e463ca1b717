pub mod Abroad
pub mod Leading
pub mod Tosses
