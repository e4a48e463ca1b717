pub mod Span
pub mod Rows
pub mod Landmarks
pub mod Laws
pub mod Words
