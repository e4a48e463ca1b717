-- What crates above take of ClassFile.
pub use Rattle.cjc_world.specs.ClassFile.ClassFile as ClassFile
pub use Rattle.cjc_world.specs.ClassFile.Code as Code
pub use Rattle.cjc_world.specs.ClassFile.Fits as Fits
pub use Rattle.cjc_world.specs.ClassFile.declared as declared
