-- What crates above take of cjc_capread.
pub use Rattle.cjc_capread.specs.Card as Card
pub use Rattle.cjc_capread.specs.ClassRefs as ClassRefs
pub use Rattle.cjc_capread.specs.Component as Component
pub use Rattle.cjc_capread.specs.Decode as Decode
pub use Rattle.cjc_capread.specs.Decoder as Decoder
pub use Rattle.cjc_capread.specs.Directory as Directory
pub use Rattle.cjc_capread.specs.Kinds as Kinds
pub use Rattle.cjc_capread.specs.MethodHeader as MethodHeader
pub use Rattle.cjc_capread.specs.Opcodes as Opcodes
pub use Rattle.cjc_capread.specs.declared as declared
