-- What crates above take of cjc_narrow.
pub use Rattle.cjc_narrow.specs.Rows as Rows
