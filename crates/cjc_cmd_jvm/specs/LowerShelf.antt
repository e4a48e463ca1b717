-- What crates above take of cjc_shelf.
pub use Rattle.cjc_shelf.specs.Command as Command
pub use Rattle.cjc_shelf.specs.Memory as Memory
pub use Rattle.cjc_shelf.specs.Shelf as Shelf
pub use Rattle.cjc_shelf.specs.declared as declared
