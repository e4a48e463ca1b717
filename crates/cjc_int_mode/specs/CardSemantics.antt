-- What crates above take of LowerCardSemantics.
pub use Rattle.cjc_ncode.specs.LowerCardSemantics.Bytecode as Bytecode
