-- What crates above take of cjc_classfile.
pub use Rattle.cjc_classfile.specs.ClassFile as ClassFile
pub use Rattle.cjc_classfile.specs.Code as Code
pub use Rattle.cjc_classfile.specs.Fits as Fits
pub use Rattle.cjc_classfile.specs.PoolItem as PoolItem
pub use Rattle.cjc_classfile.specs.declared as declared
