-- What crates above take of cjc_classfile.
pub use Rattle.cjc_classfile.specs.Code as Code
pub use Rattle.cjc_classfile.specs.declared as declared
