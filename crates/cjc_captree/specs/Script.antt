-- What crates above take of Script.
pub use Rattle.cjc_classes.specs.Script.declared as declared
