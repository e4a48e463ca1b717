-- What crates above take of CardLink.
pub use Rattle.cjc_card.specs.CardLink.Group as Group
pub use Rattle.cjc_card.specs.CardLink.Names as Names
pub use Rattle.cjc_card.specs.CardLink.declared as declared
