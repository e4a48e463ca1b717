-- What crates above take of LowerCardSemantics.
pub use Rattle.cjc_jvm_semantics.specs.LowerCardSemantics.Bytecode as Bytecode
