-- What crates above take of LowerClassFile.
pub use Rattle.cjc_jvm_step.specs.LowerClassFile.ClassFile as ClassFile
pub use Rattle.cjc_jvm_step.specs.LowerClassFile.CodeAttribute as CodeAttribute
pub use Rattle.cjc_jvm_step.specs.LowerClassFile.Items as Items
pub use Rattle.cjc_jvm_step.specs.LowerClassFile.Members as Members
pub use Rattle.cjc_jvm_step.specs.LowerClassFile.Methods as Methods
pub use Rattle.cjc_jvm_step.specs.LowerClassFile.Pool as Pool
pub use Rattle.cjc_jvm_step.specs.LowerClassFile.PoolItem as PoolItem
pub use Rattle.cjc_jvm_step.specs.LowerClassFile.declared as declared
