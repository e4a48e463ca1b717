-- What crates above take of JvmSemantics.
pub use Rattle.cjc_card_frame.specs.JvmSemantics.Group as Group
