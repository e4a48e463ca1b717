-- What crates above take of ClassFile.
pub use Rattle.cjc_group.specs.ClassFile.ClassFile as ClassFile
pub use Rattle.cjc_group.specs.ClassFile.declared as declared
