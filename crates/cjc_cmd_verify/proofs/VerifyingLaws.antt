pub mod Free
pub mod OneAnswer
pub mod Spelt
