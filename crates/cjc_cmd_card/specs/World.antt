-- What crates above take of World.
pub use Rattle.cjc_pairing.specs.World.Files as Files
pub use Rattle.cjc_pairing.specs.World.declared as declared
