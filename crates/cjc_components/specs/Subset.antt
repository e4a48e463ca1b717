-- What crates above take of Subset.
pub use Rattle.cjc_vtable.specs.Subset.Checks as Checks
pub use Rattle.cjc_vtable.specs.Subset.Flags as Flags
pub use Rattle.cjc_vtable.specs.Subset.Ints as Ints
pub use Rattle.cjc_vtable.specs.Subset.Limits as Limits
pub use Rattle.cjc_vtable.specs.Subset.Members as Members
pub use Rattle.cjc_vtable.specs.Subset.Overriding as Overriding
pub use Rattle.cjc_vtable.specs.Subset.Places as Places
pub use Rattle.cjc_vtable.specs.Subset.Types as Types
