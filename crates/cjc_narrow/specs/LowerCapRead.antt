-- What crates above take of CapRead.
pub use Rattle.cjc_jvm_semantics.specs.CapRead.Card as Card
pub use Rattle.cjc_jvm_semantics.specs.CapRead.Opcodes as Opcodes
pub use Rattle.cjc_jvm_semantics.specs.CapRead.declared as declared
