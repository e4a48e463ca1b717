-- What crates above take of Subset.
pub use Rattle.cjc_components.specs.Subset.Checks as Checks
pub use Rattle.cjc_components.specs.Subset.Flags as Flags
pub use Rattle.cjc_components.specs.Subset.Limits as Limits
pub use Rattle.cjc_components.specs.Subset.Overriding as Overriding
pub use Rattle.cjc_components.specs.Subset.Places as Places
pub use Rattle.cjc_components.specs.Subset.Types as Types
