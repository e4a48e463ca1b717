pub mod Widths
pub mod Finding
pub mod Towers
