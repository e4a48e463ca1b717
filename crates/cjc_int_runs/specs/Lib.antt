pub mod Relation
pub mod Steps
pub mod Guards
pub mod Elements
pub mod Worked
pub mod Fields
pub mod Prologue
