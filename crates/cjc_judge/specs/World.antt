-- What crates above take of cjc_world.
pub use Rattle.cjc_world.specs.Files as Files
pub use Rattle.cjc_world.specs.Rules as Rules
pub use Rattle.cjc_world.specs.declared as declared
