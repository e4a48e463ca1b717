pub mod Shapes
pub mod Numbers
pub mod Tables
pub mod Decodes
