-- What crates above take of LowerClassFile.
pub use Rattle.cjc_jvm_semantics.specs.LowerClassFile.ClassFile as ClassFile
pub use Rattle.cjc_jvm_semantics.specs.LowerClassFile.CodeAttribute as CodeAttribute
pub use Rattle.cjc_jvm_semantics.specs.LowerClassFile.Items as Items
pub use Rattle.cjc_jvm_semantics.specs.LowerClassFile.Members as Members
pub use Rattle.cjc_jvm_semantics.specs.LowerClassFile.Methods as Methods
pub use Rattle.cjc_jvm_semantics.specs.LowerClassFile.Pool as Pool
pub use Rattle.cjc_jvm_semantics.specs.LowerClassFile.PoolItem as PoolItem
pub use Rattle.cjc_jvm_semantics.specs.LowerClassFile.declared as declared
