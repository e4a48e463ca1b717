-- What crates above take of ClassFile.
pub use Rattle.cjc_card_step.specs.ClassFile.ClassFile as ClassFile
pub use Rattle.cjc_card_step.specs.ClassFile.CodeAttribute as CodeAttribute
pub use Rattle.cjc_card_step.specs.ClassFile.Items as Items
pub use Rattle.cjc_card_step.specs.ClassFile.Members as Members
pub use Rattle.cjc_card_step.specs.ClassFile.Methods as Methods
pub use Rattle.cjc_card_step.specs.ClassFile.Pool as Pool
pub use Rattle.cjc_card_step.specs.ClassFile.PoolItem as PoolItem
pub use Rattle.cjc_card_step.specs.ClassFile.declared as declared
