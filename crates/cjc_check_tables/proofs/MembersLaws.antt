pub mod Sizes
pub mod Search
pub mod Above
pub mod NeedsOf
pub mod FieldPlaces
