-- What crates above take of cjc_card_frame.
pub use Rattle.cjc_card_frame.specs.Kinds as Kinds
pub use Rattle.cjc_card_frame.specs.declared as declared
