-- What crates above take of cjc_classfile.
pub use Rattle.cjc_classfile.specs.ClassFile as ClassFile
pub use Rattle.cjc_classfile.specs.Code as Code
pub use Rattle.cjc_classfile.specs.CodeAttribute as CodeAttribute
pub use Rattle.cjc_classfile.specs.Items as Items
pub use Rattle.cjc_classfile.specs.Members as Members
pub use Rattle.cjc_classfile.specs.Methods as Methods
pub use Rattle.cjc_classfile.specs.Pool as Pool
pub use Rattle.cjc_classfile.specs.PoolItem as PoolItem
pub use Rattle.cjc_classfile.specs.declared as declared
