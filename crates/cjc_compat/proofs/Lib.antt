pub mod Ends
pub mod Keeping
pub mod Noting
pub mod OneRank
