-- What crates above take of LowerCardFrame.
pub use Rattle.cjc_card_link.specs.LowerCardFrame.Kinds as Kinds
pub use Rattle.cjc_card_link.specs.LowerCardFrame.declared as declared
