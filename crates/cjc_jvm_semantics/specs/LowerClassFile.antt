-- What crates above take of ClassFile.
pub use Rattle.cjc_code.specs.ClassFile.ClassFile as ClassFile
pub use Rattle.cjc_code.specs.ClassFile.CodeAttribute as CodeAttribute
pub use Rattle.cjc_code.specs.ClassFile.Items as Items
pub use Rattle.cjc_code.specs.ClassFile.Members as Members
pub use Rattle.cjc_code.specs.ClassFile.Methods as Methods
pub use Rattle.cjc_code.specs.ClassFile.Pool as Pool
pub use Rattle.cjc_code.specs.ClassFile.PoolItem as PoolItem
pub use Rattle.cjc_code.specs.ClassFile.declared as declared
