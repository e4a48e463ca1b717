-- What crates above take of cjc_range.
pub use Rattle.cjc_range.specs.Span as Span
