-- What crates above take of LowerWorld.
pub use Rattle.cjc_subset.specs.LowerWorld.Added as Added
pub use Rattle.cjc_subset.specs.LowerWorld.Classes as Classes
pub use Rattle.cjc_subset.specs.LowerWorld.Exported as Exported
pub use Rattle.cjc_subset.specs.LowerWorld.Files as Files
pub use Rattle.cjc_subset.specs.LowerWorld.Interfaces as Interfaces
pub use Rattle.cjc_subset.specs.LowerWorld.Lookup as Lookup
pub use Rattle.cjc_subset.specs.LowerWorld.Order as Order
pub use Rattle.cjc_subset.specs.LowerWorld.declared as declared
