-- What crates above take of LowerJvmSemantics.
pub use Rattle.cjc_narrow.specs.LowerJvmSemantics.ByName as ByName
pub use Rattle.cjc_narrow.specs.LowerJvmSemantics.Effects as Effects
pub use Rattle.cjc_narrow.specs.LowerJvmSemantics.Group as Group
pub use Rattle.cjc_narrow.specs.LowerJvmSemantics.Linked as Linked
pub use Rattle.cjc_narrow.specs.LowerJvmSemantics.Machine as Machine
pub use Rattle.cjc_narrow.specs.LowerJvmSemantics.OnePackage as OnePackage
pub use Rattle.cjc_narrow.specs.LowerJvmSemantics.Wallet as Wallet
pub use Rattle.cjc_narrow.specs.LowerJvmSemantics.Worked as Worked
