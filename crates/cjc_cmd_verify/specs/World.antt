-- What crates above take of World.
pub use Rattle.cjc_verify_theorem.specs.World.Classes as Classes
pub use Rattle.cjc_verify_theorem.specs.World.Files as Files
pub use Rattle.cjc_verify_theorem.specs.World.Rules as Rules
pub use Rattle.cjc_verify_theorem.specs.World.declared as declared
