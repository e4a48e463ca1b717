-- What crates above take of LowerNarrow.
pub use Rattle.cjc_components.specs.LowerNarrow.Rows as Rows
