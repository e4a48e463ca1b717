-- What crates above take of CardSemantics.
pub use Rattle.cjc_card_acts.specs.CardSemantics.Bytecode as Bytecode
pub use Rattle.cjc_card_acts.specs.CardSemantics.Machine as Machine
