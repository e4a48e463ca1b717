pub mod OutOfRange
