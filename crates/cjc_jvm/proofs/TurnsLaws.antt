pub mod Abroad
pub mod Leading
pub mod Receivers
pub mod Tosses
