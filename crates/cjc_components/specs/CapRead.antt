-- What crates above take of CapRead.
pub use Rattle.cjc_narrow.specs.CapRead.Component as Component
pub use Rattle.cjc_narrow.specs.CapRead.Decode as Decode
pub use Rattle.cjc_narrow.specs.CapRead.Opcodes as Opcodes
pub use Rattle.cjc_narrow.specs.CapRead.declared as declared
