pub mod Codes
pub mod Written
pub mod Ends
pub mod Caught
pub mod Kinds
pub mod Members
