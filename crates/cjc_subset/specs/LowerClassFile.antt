-- What crates above take of ClassFile.
pub use Rattle.cjc_code.specs.ClassFile.declared as declared
