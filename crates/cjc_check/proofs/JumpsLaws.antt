pub mod Apart
pub mod Flat
pub mod Lands
pub mod Indexed
pub mod Listed
pub mod Stands
