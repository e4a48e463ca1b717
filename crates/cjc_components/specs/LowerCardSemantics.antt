-- What crates above take of CardSemantics.
pub use Rattle.cjc_emit.specs.CardSemantics.Bytecode as Bytecode
pub use Rattle.cjc_emit.specs.CardSemantics.Machine as Machine
