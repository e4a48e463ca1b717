-- What crates above take of World.
pub use Rattle.cjc_jvm_semantics.specs.World.Classes as Classes
pub use Rattle.cjc_jvm_semantics.specs.World.Files as Files
pub use Rattle.cjc_jvm_semantics.specs.World.Lookup as Lookup
