-- What crates above take of Subset.
pub use Rattle.cjc_clinit.specs.Subset.Checks as Checks
pub use Rattle.cjc_clinit.specs.Subset.Exports as Exports
pub use Rattle.cjc_clinit.specs.Subset.Flags as Flags
pub use Rattle.cjc_clinit.specs.Subset.Ints as Ints
pub use Rattle.cjc_clinit.specs.Subset.Members as Members
pub use Rattle.cjc_clinit.specs.Subset.Names as Names
pub use Rattle.cjc_clinit.specs.Subset.Overriding as Overriding
pub use Rattle.cjc_clinit.specs.Subset.Places as Places
pub use Rattle.cjc_clinit.specs.Subset.Types as Types
