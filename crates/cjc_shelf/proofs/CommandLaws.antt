pub mod Gathering
pub mod Each
pub mod Ahead
pub mod Judging
pub mod Published
pub mod Acting
pub mod OneAnswer
