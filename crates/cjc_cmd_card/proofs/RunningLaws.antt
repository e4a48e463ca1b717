pub mod Gathers
pub mod Package
pub mod Order
pub mod Ranks
pub mod Made
pub mod Whole
