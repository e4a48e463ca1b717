-- What crates above take of LowerRange.
pub use Rattle.cjc_code.specs.LowerRange.Span as Span
pub use Rattle.cjc_code.specs.LowerRange.Words as Words
