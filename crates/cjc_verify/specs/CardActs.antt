-- What crates above take of cjc_card_acts.
pub use Rattle.cjc_card_acts.specs.CardTypes as CardTypes
pub use Rattle.cjc_card_acts.specs.Rows as Rows
