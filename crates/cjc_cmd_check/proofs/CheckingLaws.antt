pub mod OneAnswer
pub mod Sizes
pub mod Tested
