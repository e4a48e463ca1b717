-- What crates above take of LowerWorld.
pub use Rattle.cjc_jvm_step.specs.LowerWorld.Added as Added
pub use Rattle.cjc_jvm_step.specs.LowerWorld.Classes as Classes
pub use Rattle.cjc_jvm_step.specs.LowerWorld.Files as Files
pub use Rattle.cjc_jvm_step.specs.LowerWorld.Order as Order
pub use Rattle.cjc_jvm_step.specs.LowerWorld.Rules as Rules
pub use Rattle.cjc_jvm_step.specs.LowerWorld.declared as declared
