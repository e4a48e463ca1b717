-- What crates above take of LowerCapRead.
pub use Rattle.cjc_narrow.specs.LowerCapRead.Card as Card
pub use Rattle.cjc_narrow.specs.LowerCapRead.Opcodes as Opcodes
pub use Rattle.cjc_narrow.specs.LowerCapRead.declared as declared
