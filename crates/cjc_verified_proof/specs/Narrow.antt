-- What crates above take of Narrow.
pub use Rattle.cjc_verify.specs.Narrow.Rows as Rows
