-- What crates above take of Script.
pub use Rattle.cjc_emit.specs.Script.Sorts as Sorts
pub use Rattle.cjc_emit.specs.Script.declared as declared
