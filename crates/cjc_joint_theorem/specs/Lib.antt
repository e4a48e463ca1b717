pub mod Asked
pub mod Rules
pub mod Together
pub mod Members
pub mod Ordered
pub mod Lines
