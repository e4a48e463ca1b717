-- What crates above take of cjc_card_frame.
pub use Rattle.cjc_card_frame.specs.Kinds as Kinds
pub use Rattle.cjc_card_frame.specs.Meanings as Meanings
pub use Rattle.cjc_card_frame.specs.Objects as Objects
pub use Rattle.cjc_card_frame.specs.declared as declared
