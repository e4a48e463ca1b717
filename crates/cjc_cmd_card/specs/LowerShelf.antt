-- What crates above take of Shelf.
pub use Rattle.cjc_cmd_jvm.specs.Shelf.Command as Command
pub use Rattle.cjc_cmd_jvm.specs.Shelf.Shelf as Shelf
pub use Rattle.cjc_cmd_jvm.specs.Shelf.declared as declared
