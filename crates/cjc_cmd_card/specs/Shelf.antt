-- What crates above take of LowerShelf.
pub use Rattle.cjc_cmd_jvm.specs.LowerShelf.Command as Command
pub use Rattle.cjc_cmd_jvm.specs.LowerShelf.Memory as Memory
pub use Rattle.cjc_cmd_jvm.specs.LowerShelf.Shelf as Shelf
pub use Rattle.cjc_cmd_jvm.specs.LowerShelf.declared as declared
