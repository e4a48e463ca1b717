-- What crates above take of JvmSemantics.
pub use Rattle.cjc_theorem.specs.JvmSemantics.Group as Group
