-- What crates above take of LowerShelf.
pub use Rattle.cjc_cmd_card.specs.LowerShelf.Command as Command
pub use Rattle.cjc_cmd_card.specs.LowerShelf.declared as declared
