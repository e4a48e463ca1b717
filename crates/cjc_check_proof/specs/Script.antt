-- What crates above take of Script.
pub use Rattle.cjc_ncode.specs.Script.Sorts as Sorts
