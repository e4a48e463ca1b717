-- What crates above take of cjc_script.
pub use Rattle.cjc_script.specs.declared as declared
