-- What crates above take of Subset.
pub use Rattle.cjc_classes.specs.Subset.Checks as Checks
pub use Rattle.cjc_classes.specs.Subset.Flags as Flags
pub use Rattle.cjc_classes.specs.Subset.Limits as Limits
pub use Rattle.cjc_classes.specs.Subset.Members as Members
pub use Rattle.cjc_classes.specs.Subset.Overriding as Overriding
pub use Rattle.cjc_classes.specs.Subset.Places as Places
pub use Rattle.cjc_classes.specs.Subset.Types as Types
