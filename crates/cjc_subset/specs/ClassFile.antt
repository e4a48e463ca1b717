-- What crates above take of LowerClassFile.
pub use Rattle.cjc_code.specs.LowerClassFile.ClassFile as ClassFile
pub use Rattle.cjc_code.specs.LowerClassFile.Code as Code
pub use Rattle.cjc_code.specs.LowerClassFile.Fits as Fits
pub use Rattle.cjc_code.specs.LowerClassFile.PoolItem as PoolItem
pub use Rattle.cjc_code.specs.LowerClassFile.declared as declared
