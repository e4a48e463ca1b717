-- What crates above take of CapRead.
pub use Rattle.cjc_ncode.specs.CapRead.Component as Component
pub use Rattle.cjc_ncode.specs.CapRead.Decode as Decode
pub use Rattle.cjc_ncode.specs.CapRead.Opcodes as Opcodes
pub use Rattle.cjc_ncode.specs.CapRead.declared as declared
