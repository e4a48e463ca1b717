pub mod Sound
pub mod Kept
pub mod Loading
pub mod Infos
pub mod Known
pub mod Tables
