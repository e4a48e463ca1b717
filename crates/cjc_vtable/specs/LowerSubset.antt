-- What crates above take of cjc_subset.
pub use Rattle.cjc_subset.specs.Checks as Checks
pub use Rattle.cjc_subset.specs.Flags as Flags
pub use Rattle.cjc_subset.specs.Ints as Ints
pub use Rattle.cjc_subset.specs.Limits as Limits
pub use Rattle.cjc_subset.specs.Members as Members
pub use Rattle.cjc_subset.specs.Names as Names
pub use Rattle.cjc_subset.specs.Places as Places
pub use Rattle.cjc_subset.specs.Types as Types
