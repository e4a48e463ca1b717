-- What crates above take of ClassFile.
pub use Rattle.cjc_types.specs.ClassFile.Code as Code
pub use Rattle.cjc_types.specs.ClassFile.declared as declared
