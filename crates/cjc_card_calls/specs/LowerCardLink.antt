-- What crates above take of cjc_card_link.
pub use Rattle.cjc_card_link.specs.Group as Group
pub use Rattle.cjc_card_link.specs.Indices as Indices
pub use Rattle.cjc_card_link.specs.Names as Names
pub use Rattle.cjc_card_link.specs.Tables as Tables
pub use Rattle.cjc_card_link.specs.declared as declared
