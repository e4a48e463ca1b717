pub mod IntCode
pub mod Worked
