-- What crates above take of JvmSemantics.
pub use Rattle.cjc_verify_theorem.specs.JvmSemantics.Group as Group
