pub mod Few
pub mod Limited
pub mod Decoded
pub mod Sound
pub mod Rows
pub mod Parts
