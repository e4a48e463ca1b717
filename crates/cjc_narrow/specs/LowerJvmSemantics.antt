-- What crates above take of cjc_jvm_semantics.
pub use Rattle.cjc_jvm_semantics.specs.ByName as ByName
pub use Rattle.cjc_jvm_semantics.specs.Effects as Effects
pub use Rattle.cjc_jvm_semantics.specs.Group as Group
pub use Rattle.cjc_jvm_semantics.specs.Linked as Linked
pub use Rattle.cjc_jvm_semantics.specs.Machine as Machine
pub use Rattle.cjc_jvm_semantics.specs.OnePackage as OnePackage
pub use Rattle.cjc_jvm_semantics.specs.Wallet as Wallet
pub use Rattle.cjc_jvm_semantics.specs.Worked as Worked
