-- What crates above take of Script.
pub use Rattle.cjc_components.specs.Script.declared as declared
