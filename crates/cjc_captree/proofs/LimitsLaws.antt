pub mod Lists
pub mod IntMembers
pub mod Widest
