pub mod Room
pub mod ByModes
