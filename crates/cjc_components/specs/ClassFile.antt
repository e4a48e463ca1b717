-- What crates above take of ClassFile.
pub use Rattle.cjc_vtable.specs.ClassFile.ClassFile as ClassFile
pub use Rattle.cjc_vtable.specs.ClassFile.Code as Code
pub use Rattle.cjc_vtable.specs.ClassFile.Fits as Fits
pub use Rattle.cjc_vtable.specs.ClassFile.declared as declared
