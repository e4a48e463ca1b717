pub mod Converted
pub mod Checked
pub mod Joined
pub mod LaidOut
pub mod Entries
