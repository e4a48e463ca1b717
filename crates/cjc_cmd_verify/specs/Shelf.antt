-- What crates above take of Shelf.
pub use Rattle.cjc_cmd_card.specs.Shelf.Command as Command
pub use Rattle.cjc_cmd_card.specs.Shelf.declared as declared
