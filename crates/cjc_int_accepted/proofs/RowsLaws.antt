-- Rows of the table of a method in int mode, by what is written for each instruction.
pub mod Aside
pub mod Calls
pub mod Elements
pub mod Locals
pub mod Objects
pub mod Plain
pub mod Prologue
pub mod Sound
pub mod Stack
pub mod Values
pub mod Walks
