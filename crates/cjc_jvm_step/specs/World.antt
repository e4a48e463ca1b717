-- What crates above take of World.
pub use Rattle.cjc_jvm_semantics.specs.World.Classes as Classes
pub use Rattle.cjc_jvm_semantics.specs.World.Files as Files
pub use Rattle.cjc_jvm_semantics.specs.World.Order as Order
pub use Rattle.cjc_jvm_semantics.specs.World.Rules as Rules
pub use Rattle.cjc_jvm_semantics.specs.World.declared as declared
