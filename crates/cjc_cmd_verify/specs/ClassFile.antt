-- What crates above take of ClassFile.
pub use Rattle.cjc_verify_theorem.specs.ClassFile.ClassFile as ClassFile
pub use Rattle.cjc_verify_theorem.specs.ClassFile.declared as declared
