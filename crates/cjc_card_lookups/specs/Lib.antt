pub mod Names
pub mod Group
pub mod Indices
pub mod Infos
pub mod Described
pub mod Exported
pub mod Tables
pub mod Walks
