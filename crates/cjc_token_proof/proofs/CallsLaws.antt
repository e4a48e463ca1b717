pub mod Dispatch
pub mod Selections
pub mod Reaching
pub mod Towers
