-- What crates above take of cjc_world.
pub use Rattle.cjc_world.specs.Added as Added
pub use Rattle.cjc_world.specs.Classes as Classes
pub use Rattle.cjc_world.specs.Exported as Exported
pub use Rattle.cjc_world.specs.Files as Files
pub use Rattle.cjc_world.specs.Interfaces as Interfaces
pub use Rattle.cjc_world.specs.Lookup as Lookup
pub use Rattle.cjc_world.specs.Order as Order
pub use Rattle.cjc_world.specs.Rules as Rules
pub use Rattle.cjc_world.specs.Subtype as Subtype
pub use Rattle.cjc_world.specs.Supertypes as Supertypes
pub use Rattle.cjc_world.specs.Working as Working
pub use Rattle.cjc_world.specs.declared as declared
