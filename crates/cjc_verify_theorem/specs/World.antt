-- What crates above take of World.
pub use Rattle.cjc_theorem.specs.World.Files as Files
pub use Rattle.cjc_theorem.specs.World.declared as declared
