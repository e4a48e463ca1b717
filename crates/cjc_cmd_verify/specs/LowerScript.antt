-- What crates above take of Script.
pub use Rattle.cjc_verify_theorem.specs.Script.declared as declared
