-- What crates above take of Range.
pub use Rattle.cjc_clinit.specs.Range.Span as Span
pub use Rattle.cjc_clinit.specs.Range.Words as Words
