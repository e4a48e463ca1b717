-- What crates above take of cjc_capread.
pub use Rattle.cjc_capread.specs.Decode as Decode
pub use Rattle.cjc_capread.specs.MethodHeader as MethodHeader
pub use Rattle.cjc_capread.specs.Opcodes as Opcodes
pub use Rattle.cjc_capread.specs.Parts as Parts
pub use Rattle.cjc_capread.specs.declared as declared
