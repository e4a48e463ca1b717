-- What crates above take of ClassFile.
pub use Rattle.cjc_order.specs.ClassFile.ClassFile as ClassFile
pub use Rattle.cjc_order.specs.ClassFile.Code as Code
pub use Rattle.cjc_order.specs.ClassFile.Fits as Fits
pub use Rattle.cjc_order.specs.ClassFile.declared as declared
