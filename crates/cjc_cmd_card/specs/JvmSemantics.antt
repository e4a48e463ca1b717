-- What crates above take of JvmSemantics.
pub use Rattle.cjc_card.specs.JvmSemantics.Group as Group
