-- What crates above take of World.
pub use Rattle.cjc_classes.specs.World.Added as Added
pub use Rattle.cjc_classes.specs.World.Classes as Classes
pub use Rattle.cjc_classes.specs.World.Files as Files
pub use Rattle.cjc_classes.specs.World.Lookup as Lookup
pub use Rattle.cjc_classes.specs.World.Order as Order
pub use Rattle.cjc_classes.specs.World.declared as declared
