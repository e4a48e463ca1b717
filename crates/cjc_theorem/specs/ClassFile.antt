-- What crates above take of ClassFile.
pub use Rattle.cjc_subset.specs.ClassFile.ClassFile as ClassFile
pub use Rattle.cjc_subset.specs.ClassFile.Fits as Fits
pub use Rattle.cjc_subset.specs.ClassFile.declared as declared
