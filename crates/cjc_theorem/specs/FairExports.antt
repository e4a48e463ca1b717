pub mod Fair
pub mod Worked
