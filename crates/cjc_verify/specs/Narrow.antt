-- What crates above take of Narrow.
pub use Rattle.cjc_methods.specs.Narrow.Pairs as Pairs
pub use Rattle.cjc_methods.specs.Narrow.Rows as Rows
