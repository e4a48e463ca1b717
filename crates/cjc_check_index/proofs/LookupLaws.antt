pub mod Indexed
pub mod MethodStarts
pub mod TokenPlaces
