-- What crates above take of CardSemantics.
pub use Rattle.cjc_narrow.specs.CardSemantics.Bytecode as Bytecode
pub use Rattle.cjc_narrow.specs.CardSemantics.Machine as Machine
