-- What crates above take of LowerScript.
pub use Rattle.cjc_components.specs.LowerScript.declared as declared
