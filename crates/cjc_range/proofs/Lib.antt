pub mod Spans
pub mod Bits
pub mod Order
pub mod OrderBits
pub mod Rounding
pub mod WordsLaws
