-- What crates above take of CardSemantics.
pub use Rattle.cjc_int_mode.specs.CardSemantics.Bytecode as Bytecode
