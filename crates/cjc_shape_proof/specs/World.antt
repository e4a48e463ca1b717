-- What crates above take of cjc_world.
pub use Rattle.cjc_world.specs.Added as Added
pub use Rattle.cjc_world.specs.Classes as Classes
pub use Rattle.cjc_world.specs.Files as Files
pub use Rattle.cjc_world.specs.Lookup as Lookup
pub use Rattle.cjc_world.specs.Order as Order
pub use Rattle.cjc_world.specs.declared as declared
