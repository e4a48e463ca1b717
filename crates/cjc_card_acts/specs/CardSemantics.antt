-- What crates above take of LowerCardSemantics.
pub use Rattle.cjc_card_frame.specs.LowerCardSemantics.Bytecode as Bytecode
pub use Rattle.cjc_card_frame.specs.LowerCardSemantics.Machine as Machine
