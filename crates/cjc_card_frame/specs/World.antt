-- What crates above take of World.
pub use Rattle.cjc_jvm_step.specs.World.Classes as Classes
pub use Rattle.cjc_jvm_step.specs.World.Files as Files
pub use Rattle.cjc_jvm_step.specs.World.Order as Order
pub use Rattle.cjc_jvm_step.specs.World.Rules as Rules
pub use Rattle.cjc_jvm_step.specs.World.declared as declared
