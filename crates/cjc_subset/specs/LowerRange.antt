-- What crates above take of Range.
pub use Rattle.cjc_code.specs.Range.Span as Span
pub use Rattle.cjc_code.specs.Range.Words as Words
