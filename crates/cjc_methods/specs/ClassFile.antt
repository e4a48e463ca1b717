-- What crates above take of ClassFile.
pub use Rattle.cjc_components.specs.ClassFile.ClassFile as ClassFile
pub use Rattle.cjc_components.specs.ClassFile.Code as Code
pub use Rattle.cjc_components.specs.ClassFile.Fits as Fits
pub use Rattle.cjc_components.specs.ClassFile.declared as declared
