-- Instructions of each family: their acts mirror the instructions of the class file.
pub mod Operands
pub mod Plain
pub mod Objects
pub mod Members
pub mod Inside
pub mod Alone
pub mod Acts
pub mod Emptied
pub mod Leads
pub mod Named
pub mod Outside
pub mod Within
