-- What crates above take of ClassFile.
pub use Rattle.cjc_card_frame.specs.ClassFile.declared as declared
