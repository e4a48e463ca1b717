-- What crates above take of CapRead.
pub use Rattle.cjc_card_semantics.specs.CapRead.Card as Card
pub use Rattle.cjc_card_semantics.specs.CapRead.Decode as Decode
pub use Rattle.cjc_card_semantics.specs.CapRead.Opcodes as Opcodes
pub use Rattle.cjc_card_semantics.specs.CapRead.declared as declared
