-- What crates above take of Subset.
pub use Rattle.cjc_verify.specs.Subset.Checks as Checks
pub use Rattle.cjc_verify.specs.Subset.Flags as Flags
pub use Rattle.cjc_verify.specs.Subset.Limits as Limits
pub use Rattle.cjc_verify.specs.Subset.Overriding as Overriding
pub use Rattle.cjc_verify.specs.Subset.Places as Places
pub use Rattle.cjc_verify.specs.Subset.Types as Types
