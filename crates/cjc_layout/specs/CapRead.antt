-- What crates above take of LowerCapRead.
pub use Rattle.cjc_ncode.specs.LowerCapRead.Card as Card
pub use Rattle.cjc_ncode.specs.LowerCapRead.Decode as Decode
pub use Rattle.cjc_ncode.specs.LowerCapRead.Opcodes as Opcodes
pub use Rattle.cjc_ncode.specs.LowerCapRead.declared as declared
