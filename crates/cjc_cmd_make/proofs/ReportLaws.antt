pub mod Files
pub mod Ends
pub mod OneAnswer
