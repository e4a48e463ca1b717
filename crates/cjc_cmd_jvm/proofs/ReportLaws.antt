pub mod Free
pub mod OneAnswer
