-- What crates above take of Script.
pub use Rattle.cjc_narrow.specs.Script.Sorts as Sorts
pub use Rattle.cjc_narrow.specs.Script.declared as declared
