-- What crates above take of LowerNarrow.
pub use Rattle.cjc_components.specs.LowerNarrow.Keys as Keys
pub use Rattle.cjc_components.specs.LowerNarrow.Pairs as Pairs
pub use Rattle.cjc_components.specs.LowerNarrow.Rows as Rows
pub use Rattle.cjc_components.specs.LowerNarrow.Written as Written
