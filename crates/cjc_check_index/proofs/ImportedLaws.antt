pub mod Loops
pub mod Flat
pub mod Names
pub mod Inherited
pub mod Edges
pub mod Marks
pub mod Closure
pub mod Answers
