-- What crates above take of LowerJvmSemantics.
pub use Rattle.cjc_components.specs.LowerJvmSemantics.Effects as Effects
pub use Rattle.cjc_components.specs.LowerJvmSemantics.Group as Group
pub use Rattle.cjc_components.specs.LowerJvmSemantics.Linked as Linked
pub use Rattle.cjc_components.specs.LowerJvmSemantics.Machine as Machine
pub use Rattle.cjc_components.specs.LowerJvmSemantics.OnePackage as OnePackage
