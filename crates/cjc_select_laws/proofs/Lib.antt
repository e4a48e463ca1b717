pub mod Cuts
pub mod Places
pub mod Leads
pub mod Sizes
pub mod Whole
pub mod Limits
pub mod Words
pub mod Selectable
