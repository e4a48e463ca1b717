-- What crates above take of cjc_jvm_semantics.
pub use Rattle.cjc_jvm_semantics.specs.ByName as ByName
pub use Rattle.cjc_jvm_semantics.specs.Machine as Machine
pub use Rattle.cjc_jvm_semantics.specs.OnePackage as OnePackage
