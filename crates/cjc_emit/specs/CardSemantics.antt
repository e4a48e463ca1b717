-- What crates above take of CardSemantics.
pub use Rattle.cjc_layout.specs.CardSemantics.Bytecode as Bytecode
pub use Rattle.cjc_layout.specs.CardSemantics.Machine as Machine
