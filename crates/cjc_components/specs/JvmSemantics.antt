-- What crates above take of JvmSemantics.
pub use Rattle.cjc_narrow.specs.JvmSemantics.ByName as ByName
pub use Rattle.cjc_narrow.specs.JvmSemantics.Effects as Effects
pub use Rattle.cjc_narrow.specs.JvmSemantics.Group as Group
pub use Rattle.cjc_narrow.specs.JvmSemantics.Linked as Linked
pub use Rattle.cjc_narrow.specs.JvmSemantics.OnePackage as OnePackage
pub use Rattle.cjc_narrow.specs.JvmSemantics.Wallet as Wallet
pub use Rattle.cjc_narrow.specs.JvmSemantics.Worked as Worked
