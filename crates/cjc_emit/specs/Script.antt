-- What crates above take of Script.
pub use Rattle.cjc_layout.specs.Script.Sorts as Sorts
pub use Rattle.cjc_layout.specs.Script.declared as declared
