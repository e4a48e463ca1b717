-- What crates above take of LowerScript.
pub use Rattle.cjc_ncode.specs.LowerScript.Sorts as Sorts
pub use Rattle.cjc_ncode.specs.LowerScript.declared as declared
