-- What crates above take of Script.
pub use Rattle.cjc_theorem.specs.Script.declared as declared
