-- What crates above take of cjc_shelf.
pub use Rattle.cjc_shelf.specs.Command as Command
pub use Rattle.cjc_shelf.specs.declared as declared
