pub mod Answers
pub mod Breaches
pub mod Working
