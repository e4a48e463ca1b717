-- What crates above take of JvmSemantics.
pub use Rattle.cjc_card_frame.specs.JvmSemantics.Linked as Linked
pub use Rattle.cjc_card_frame.specs.JvmSemantics.OnePackage as OnePackage
