-- What crates above take of ClassFile.
pub use Rattle.cjc_flow.specs.ClassFile.Code as Code
pub use Rattle.cjc_flow.specs.ClassFile.declared as declared
