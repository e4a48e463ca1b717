-- What crates above take of LowerRange.
pub use Rattle.cjc_subset.specs.LowerRange.Span as Span
pub use Rattle.cjc_subset.specs.LowerRange.Words as Words
