-- What crates above take of World.
pub use Rattle.cjc_clinit.specs.World.Classes as Classes
pub use Rattle.cjc_clinit.specs.World.Files as Files
pub use Rattle.cjc_clinit.specs.World.Lookup as Lookup
pub use Rattle.cjc_clinit.specs.World.declared as declared
