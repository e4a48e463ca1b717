-- What crates above take of ClassFile.
pub use Rattle.cjc_classes.specs.ClassFile.declared as declared
