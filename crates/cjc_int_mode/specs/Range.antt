-- What crates above take of Range.
pub use Rattle.cjc_flow.specs.Range.Span as Span
