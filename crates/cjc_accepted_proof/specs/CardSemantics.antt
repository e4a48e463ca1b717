-- What crates above take of CardSemantics.
pub use Rattle.cjc_check_proof.specs.CardSemantics.Bytecode as Bytecode
pub use Rattle.cjc_check_proof.specs.CardSemantics.Machine as Machine
