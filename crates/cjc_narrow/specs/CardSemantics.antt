-- What crates above take of CardSemantics.
pub use Rattle.cjc_ncode.specs.CardSemantics.Bytecode as Bytecode
pub use Rattle.cjc_ncode.specs.CardSemantics.Machine as Machine
