-- What crates above take of ClassFile.
pub use Rattle.cjc_int_mode.specs.ClassFile.Code as Code
pub use Rattle.cjc_int_mode.specs.ClassFile.declared as declared
