-- What crates above take of cjc_range.
pub use Rattle.cjc_range.specs.Landmarks as Landmarks
pub use Rattle.cjc_range.specs.Rows as Rows
pub use Rattle.cjc_range.specs.Span as Span
pub use Rattle.cjc_range.specs.Words as Words
