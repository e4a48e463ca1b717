-- What crates above take of LowerClassFile.
pub use Rattle.cjc_world.specs.LowerClassFile.ClassFile as ClassFile
pub use Rattle.cjc_world.specs.LowerClassFile.declared as declared
