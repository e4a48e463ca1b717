pub mod Led
pub mod Literals
pub mod Tables
pub mod Used
