-- What crates above take of LowerCapRead.
pub use Rattle.cjc_card_semantics.specs.LowerCapRead.Card as Card
pub use Rattle.cjc_card_semantics.specs.LowerCapRead.ClassRefs as ClassRefs
pub use Rattle.cjc_card_semantics.specs.LowerCapRead.Component as Component
pub use Rattle.cjc_card_semantics.specs.LowerCapRead.Decode as Decode
pub use Rattle.cjc_card_semantics.specs.LowerCapRead.MethodHeader as MethodHeader
pub use Rattle.cjc_card_semantics.specs.LowerCapRead.Opcodes as Opcodes
pub use Rattle.cjc_card_semantics.specs.LowerCapRead.declared as declared
