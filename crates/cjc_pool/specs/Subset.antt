-- What crates above take of LowerSubset.
pub use Rattle.cjc_components.specs.LowerSubset.Applets as Applets
pub use Rattle.cjc_components.specs.LowerSubset.Checks as Checks
pub use Rattle.cjc_components.specs.LowerSubset.Flags as Flags
pub use Rattle.cjc_components.specs.LowerSubset.Ints as Ints
pub use Rattle.cjc_components.specs.LowerSubset.Limits as Limits
pub use Rattle.cjc_components.specs.LowerSubset.Members as Members
pub use Rattle.cjc_components.specs.LowerSubset.Names as Names
pub use Rattle.cjc_components.specs.LowerSubset.Places as Places
