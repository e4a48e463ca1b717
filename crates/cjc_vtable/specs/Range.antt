-- What crates above take of Range.
pub use Rattle.cjc_subset.specs.Range.Span as Span
pub use Rattle.cjc_subset.specs.Range.Words as Words
