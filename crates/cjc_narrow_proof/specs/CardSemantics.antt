-- What crates above take of cjc_card_semantics.
pub use Rattle.cjc_card_semantics.specs.Bytecode as Bytecode
pub use Rattle.cjc_card_semantics.specs.Machine as Machine
