-- What crates above take of CardFrame.
pub use Rattle.cjc_pairing.specs.CardFrame.Kinds as Kinds
pub use Rattle.cjc_pairing.specs.CardFrame.declared as declared
