-- What crates above take of Range.
pub use Rattle.cjc_int_mode.specs.Range.Span as Span
