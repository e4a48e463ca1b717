-- What crates above take of LowerClassFile.
pub use Rattle.cjc_card_frame.specs.LowerClassFile.ClassFile as ClassFile
pub use Rattle.cjc_card_frame.specs.LowerClassFile.CodeAttribute as CodeAttribute
pub use Rattle.cjc_card_frame.specs.LowerClassFile.Items as Items
pub use Rattle.cjc_card_frame.specs.LowerClassFile.Members as Members
pub use Rattle.cjc_card_frame.specs.LowerClassFile.Methods as Methods
pub use Rattle.cjc_card_frame.specs.LowerClassFile.Pool as Pool
pub use Rattle.cjc_card_frame.specs.LowerClassFile.PoolItem as PoolItem
pub use Rattle.cjc_card_frame.specs.LowerClassFile.declared as declared
