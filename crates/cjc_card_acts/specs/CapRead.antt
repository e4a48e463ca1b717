-- What crates above take of CapRead.
pub use Rattle.cjc_card_frame.specs.CapRead.Card as Card
pub use Rattle.cjc_card_frame.specs.CapRead.ClassRefs as ClassRefs
pub use Rattle.cjc_card_frame.specs.CapRead.Decode as Decode
pub use Rattle.cjc_card_frame.specs.CapRead.Opcodes as Opcodes
pub use Rattle.cjc_card_frame.specs.CapRead.declared as declared
