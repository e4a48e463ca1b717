-- What crates above take of LowerCardLink.
pub use Rattle.cjc_card_calls.specs.LowerCardLink.Group as Group
pub use Rattle.cjc_card_calls.specs.LowerCardLink.Names as Names
pub use Rattle.cjc_card_calls.specs.LowerCardLink.declared as declared
