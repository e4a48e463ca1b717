-- What crates above take of LowerClassFile.
pub use Rattle.cjc_world.specs.LowerClassFile.ClassFile as ClassFile
pub use Rattle.cjc_world.specs.LowerClassFile.Code as Code
pub use Rattle.cjc_world.specs.LowerClassFile.Entry as Entry
pub use Rattle.cjc_world.specs.LowerClassFile.Fits as Fits
pub use Rattle.cjc_world.specs.LowerClassFile.Items as Items
pub use Rattle.cjc_world.specs.LowerClassFile.Methods as Methods
pub use Rattle.cjc_world.specs.LowerClassFile.declared as declared
