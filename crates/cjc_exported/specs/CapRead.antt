-- What crates above take of CapRead.
pub use Rattle.cjc_components.specs.CapRead.Opcodes as Opcodes
