pub mod Words
pub mod Beside
pub mod Acts
pub mod Heaps
pub mod Growth
pub mod References
pub mod Control
pub mod Frames
pub mod Calls
pub mod Scripts
pub mod Turns
pub mod Instructions
pub mod Runs
pub mod Values
pub mod Memories
pub mod Uses
-- Definitions of lower crates, for those above.
pub mod Types
