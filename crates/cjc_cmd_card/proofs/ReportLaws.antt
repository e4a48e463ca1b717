pub mod Once
pub mod Free
pub mod Whole
pub mod OneAnswer
